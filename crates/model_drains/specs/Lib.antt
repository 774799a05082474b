pub mod Costing
pub mod Leaving
pub mod Ticks
