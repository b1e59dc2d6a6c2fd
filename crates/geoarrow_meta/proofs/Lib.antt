pub mod Equality
pub mod ReadBack
pub mod KeyedValues
pub mod Stands
pub mod PlainTexts
pub mod PlainValues
pub mod PlainRuns
pub mod Compact
mod Printable
mod Objects
mod TextReadBack
