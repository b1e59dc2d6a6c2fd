mod Firsts
mod Loops
mod OneLine
pub mod Kept
mod Whole
pub mod Copies
mod Compact
pub mod Turns
pub mod Beginnings
pub mod Presence
pub mod Adding
pub mod Printed
