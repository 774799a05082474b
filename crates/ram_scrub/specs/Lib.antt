pub mod Search
pub mod Found
pub mod Scrub
pub mod Calls
