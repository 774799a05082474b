pub mod Certifying
pub mod Blocks
