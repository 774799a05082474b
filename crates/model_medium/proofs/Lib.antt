pub mod CellFacts
pub mod Arms
pub mod Uses
pub mod Compose
pub mod Rules
pub mod Happening
