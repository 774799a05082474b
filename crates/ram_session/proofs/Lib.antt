pub mod Chains
pub mod Decoded
pub mod ReadData
pub mod Kept
mod OneReading
pub mod Promised
pub mod AllAnswered
