pub mod Kept
pub mod Summary
pub mod Rooms
pub mod Generating
