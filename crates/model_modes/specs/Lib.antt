pub mod Pages
pub mod ParameterLists
