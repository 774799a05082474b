pub mod Puts
pub mod Refused
pub mod OneByte
pub mod Prints
pub mod Turns
pub mod Distinct
