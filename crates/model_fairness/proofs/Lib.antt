mod Staying
pub mod Calls
