pub mod Terms
pub mod Reading
pub mod Inferring
pub mod Uninferred
pub mod Inferable
pub mod Rewriting
pub mod Texts
