pub mod Words
pub mod Rooms
pub mod Promises
