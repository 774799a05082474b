pub mod Few
pub mod Promised
pub mod PromisedByRun
pub mod Heard
pub mod Sessions
