pub mod Fault
pub mod Record
pub mod Write
pub mod Trees
