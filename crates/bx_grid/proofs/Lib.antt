pub mod Orders
pub mod Prefixes
pub mod Neighbours
pub mod Decided
