pub mod DeadCells
pub mod Finding
pub mod Losing
pub mod Staying
