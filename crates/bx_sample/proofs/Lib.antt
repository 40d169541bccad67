pub mod Above
pub mod Turns
