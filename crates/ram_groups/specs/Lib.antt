pub mod Layouts
pub mod Zoning
