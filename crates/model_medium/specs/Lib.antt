pub mod Cells
pub mod World
pub mod Machine
pub mod Exact
pub mod Reach
pub mod Happened
