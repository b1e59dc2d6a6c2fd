pub mod Agrees
pub mod Claims
