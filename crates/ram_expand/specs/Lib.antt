pub mod Sizes
pub mod Drafts
pub mod Expanding
pub mod Standing
