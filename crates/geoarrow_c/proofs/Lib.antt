mod Runs
pub mod Made
mod Compared
mod Written
mod Placed
mod GeoTexts
mod Walked
