pub mod Fields
pub mod OneLine
pub mod Fronts
pub mod OneDesign
pub mod Stops
pub mod Order
pub mod Written
pub mod Deciding
