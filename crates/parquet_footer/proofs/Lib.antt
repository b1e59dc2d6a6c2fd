pub mod Bounds
pub mod Lists
pub mod Loops
pub mod Notes
pub mod Texts
