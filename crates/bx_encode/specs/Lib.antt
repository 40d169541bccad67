pub mod Variables
pub mod Windows
pub mod Families
pub mod Formula
pub mod Sizes
pub mod Bits
pub mod Examples
pub mod Writing
