pub mod Caches
pub mod Calls
pub mod Flushes
pub mod Reading
pub mod Rooms
pub mod Staging
