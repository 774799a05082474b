pub mod Summaries
pub mod Generated
