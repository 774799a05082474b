pub mod RawLines
pub mod OneMore
pub mod Endings
pub mod FewLines
pub mod States
pub mod Finished
pub mod Simulated
