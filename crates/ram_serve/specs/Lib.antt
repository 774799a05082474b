pub mod Messages
pub mod Taking
pub mod Turns
pub mod Rooms
pub mod Handshakes
