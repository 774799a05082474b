pub mod Faults
pub mod Exports
pub mod Opens
