mod ExpandCalls
mod VerifyCalls
mod RecordCalls
mod CallSteps
mod Somes
mod Held
