pub mod Drives
pub mod Volume
