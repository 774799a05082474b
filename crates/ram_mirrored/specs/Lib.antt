pub mod MirrorRuns
pub mod MirrorRegister
pub mod MirrorSettled
pub mod MirrorPromise
pub mod Running
pub mod Rooms
