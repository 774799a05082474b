pub mod FreeSpares
pub mod Trying
pub mod Placing
pub mod Moving
pub mod Behind
pub mod Under
