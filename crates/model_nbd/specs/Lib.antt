pub mod Messages
pub mod Operations
pub mod Handshake
pub mod Commands
