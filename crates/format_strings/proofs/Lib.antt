pub mod Parsed
pub mod Written
pub mod Forth
pub mod Back
pub mod Noted
