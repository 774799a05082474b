pub mod Laws
pub mod Control
pub mod Countdown
pub mod Slots
pub mod Memory
pub mod Begun
pub mod WholeBlocks
pub mod ReadInto
