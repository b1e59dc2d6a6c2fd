pub mod Entries
pub mod Below
pub mod Grows
pub mod Nuls
pub mod Ones
pub mod Back
pub mod Whole
