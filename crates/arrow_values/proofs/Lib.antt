pub mod Equal
pub mod Ids
pub mod TextLaws
pub mod Refusals
