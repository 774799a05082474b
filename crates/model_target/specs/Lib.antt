pub mod Host
pub mod Judging
pub mod Replies
pub mod Senses
pub mod Steps
