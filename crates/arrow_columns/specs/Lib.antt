pub mod Types
pub mod Column
pub mod Falls
pub mod Notation
pub mod Below
pub mod Nested
pub mod Outlines
pub mod Names
