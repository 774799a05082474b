pub mod Retained
pub mod SlotCells
pub mod Parts
pub mod Arming
