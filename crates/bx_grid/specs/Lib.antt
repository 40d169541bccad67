pub mod Tiles
pub mod Orders
