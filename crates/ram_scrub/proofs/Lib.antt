pub mod Coming
pub mod Halving
pub mod Rooms
pub mod Ending
