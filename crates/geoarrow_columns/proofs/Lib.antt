pub mod Equality
pub mod Reports
