mod Buffers
mod Behind
pub mod Machines
pub mod Happening
pub mod Layouts
mod Fetches
mod ReadTurns
mod ReadEnds
mod ReadAhead
mod Rests
mod VerifyTurns
mod WriteTurns
mod WriteEnds
