pub mod Dotted
pub mod Escapes
pub mod Frames
pub mod Pictures
