mod Adding
mod ByColumn
pub mod Capping
mod Joined
pub mod Reported
pub mod Whole
pub mod Verdicts
