pub mod Agree
pub mod Column
