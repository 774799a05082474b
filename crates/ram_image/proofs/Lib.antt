pub mod Moments
pub mod CellMoments
pub mod CellReads
pub mod CellSteps
pub mod ByteSteps
pub mod TellsCells
pub mod Leaving
pub mod Events
pub mod EventSteps
pub mod MachineParts
mod LeftMachine
mod GoodRows
mod Faults
pub mod Knowing
