pub mod Chains
pub mod Requests
