pub mod Drafting
pub mod Growing
pub mod Sizing
mod Lawful
