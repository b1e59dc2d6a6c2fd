pub mod Canonical
pub mod Commands
