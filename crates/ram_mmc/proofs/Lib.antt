pub mod Judged
pub mod Executed
pub mod Asked
pub mod Tellings
