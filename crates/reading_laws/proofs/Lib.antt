pub mod Agreement
pub mod Soundness
