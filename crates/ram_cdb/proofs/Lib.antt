pub mod Limits
pub mod Causes
