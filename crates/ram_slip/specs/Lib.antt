pub mod Counts
pub mod Roles
