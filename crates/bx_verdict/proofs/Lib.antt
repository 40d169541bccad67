pub mod Stopping
pub mod Meaning
pub mod OneVerdict
pub mod InOrder
pub mod Existence
