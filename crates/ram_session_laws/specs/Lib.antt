pub mod ReadBack
pub mod Protocol
