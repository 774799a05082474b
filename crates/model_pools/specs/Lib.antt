pub mod Listed
pub mod Pools
pub mod Moves
