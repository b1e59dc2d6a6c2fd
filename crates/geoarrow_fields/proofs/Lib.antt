pub mod Terms
pub mod Limits
pub mod Feeds
pub mod Ways
mod Layouts
mod Extension
mod OneAnswer
mod Canon
mod Outcomes
