pub mod Cutting
pub mod Layouts
pub mod Made
pub mod Starts
pub mod Tables
pub mod OfKind
