pub mod Digits
pub mod Texts
pub mod Objects
pub mod Equals
pub mod Agreement
