pub mod Numbers
pub mod Formats
pub mod Reading
pub mod Notations
