pub mod Report
pub mod Same
