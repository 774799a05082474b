pub mod Tables
pub mod Notes
pub mod Sides
pub mod Mirrors
pub mod Reading
pub mod Resyncs
pub mod Powering
pub mod Giving
