pub mod Doing
pub mod Talk
pub mod Opening
pub mod Kept
pub mod Session
pub mod Promise
