pub mod Next
pub mod Presence
pub mod Adds
pub mod Codes
pub mod Values
