pub mod Errors
pub mod Texts
pub mod Columns
pub mod Views
pub mod Schemas
