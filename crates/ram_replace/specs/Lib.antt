pub mod Spares
pub mod Placing
pub mod Cursors
