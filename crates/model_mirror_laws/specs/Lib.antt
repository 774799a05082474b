pub mod Kept
pub mod Ahead
pub mod Bytes
pub mod Runs
