pub mod PartBytes
pub mod Moves
pub mod ReadBytes
