mod Conversing
mod Closing
pub mod Statuses
