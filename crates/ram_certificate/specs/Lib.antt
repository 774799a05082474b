pub mod Rooms
pub mod Auditing
pub mod NextRun
