pub mod Given
pub mod Starts
pub mod Covers
pub mod Moves
pub mod Samples
pub mod Expansions
