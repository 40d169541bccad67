pub mod Networks
pub mod Values
pub mod Paths
pub mod Windows
pub mod Mapped
pub mod Examples
pub mod WrittenOut
