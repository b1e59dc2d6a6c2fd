pub mod Columns
pub mod Conversions
pub mod Surveys
pub mod Unions
