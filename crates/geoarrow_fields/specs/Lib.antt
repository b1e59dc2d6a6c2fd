pub mod Lines
pub mod Answer
pub mod Progress
pub mod Arguments
pub mod Program
