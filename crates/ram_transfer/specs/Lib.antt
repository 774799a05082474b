pub mod Blocks
pub mod Layouts
pub mod Reading
pub mod Shown
pub mod Stopped
pub mod Verifying
pub mod Writing
