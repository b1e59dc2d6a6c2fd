pub mod Placed
pub mod Formats
pub mod Texts
pub mod Structures
pub mod Refusals
pub mod Writes
pub mod Views
