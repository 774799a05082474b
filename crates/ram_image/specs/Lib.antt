pub mod CellCalls
pub mod Moments
pub mod Press
pub mod EventBytes
pub mod Medium
pub mod Begun
pub mod Opening
pub mod OneProof
