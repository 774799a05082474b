pub mod Bytes
pub mod Telling
pub mod Comparing
pub mod Leaving
pub mod Rooms
pub mod Discs
