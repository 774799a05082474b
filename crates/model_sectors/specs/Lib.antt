pub mod Discs
pub mod Requests
pub mod Uses
