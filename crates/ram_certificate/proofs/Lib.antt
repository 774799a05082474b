pub mod Answering
pub mod OneKind
pub mod NextRun
