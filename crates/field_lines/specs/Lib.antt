pub mod Names
pub mod FieldOfValue
pub mod ColumnOfValue
pub mod Lean
pub mod LineForm
pub mod Held
pub mod Line
pub mod Steps
