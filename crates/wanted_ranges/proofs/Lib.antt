pub mod Bounds
pub mod Begins
pub mod Tails
pub mod Steps
pub mod Streams
pub mod Ends
pub mod Covered
