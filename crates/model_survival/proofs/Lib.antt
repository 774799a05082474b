pub mod Finding
pub mod Losing
