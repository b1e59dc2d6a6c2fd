pub mod Types
pub mod Changes
pub mod Reads
pub mod Normal
pub mod Infers
