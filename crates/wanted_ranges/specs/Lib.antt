pub mod Wanted
pub mod Enough
pub mod Rounds
