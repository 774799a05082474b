pub mod Found
pub mod Counted
pub mod Whole
pub mod Sensed
pub mod Settling
