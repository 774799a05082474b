pub mod Findable
pub mod Losing
pub mod Stops
