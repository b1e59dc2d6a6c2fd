pub mod Texts
pub mod Readings
pub mod Once
pub mod Words
pub mod Pairs
pub mod Lines
