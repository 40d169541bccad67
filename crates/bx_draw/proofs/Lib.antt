pub mod Drawn
pub mod Framed
pub mod Harmless
