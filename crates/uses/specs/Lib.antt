pub mod Columns
pub mod Survey
