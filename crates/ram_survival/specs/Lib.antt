pub mod Survival
pub mod Living
pub mod Idle
pub mod Counted
