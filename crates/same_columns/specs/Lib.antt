pub mod Compared
pub mod Aspects
pub mod Ranks
pub mod Differences
pub mod Laws
pub mod Unlike
pub mod Lines
pub mod Files
