pub mod Spares
pub mod Turns
