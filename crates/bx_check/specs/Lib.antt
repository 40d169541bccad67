pub mod Valued
pub mod Left
pub mod Passing
pub mod Chunks
