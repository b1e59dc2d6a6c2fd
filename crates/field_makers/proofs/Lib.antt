pub mod Written
pub mod ReadBack
pub mod Found
pub mod Quiet
pub mod TypeTold
