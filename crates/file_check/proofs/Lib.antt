pub mod Parts
pub mod Blanks
pub mod Fits
pub mod Rows
pub mod Wanted
pub mod Made
mod Errors
