pub mod Draws
pub mod Gates
pub mod Signals
pub mod Samples
pub mod Library
