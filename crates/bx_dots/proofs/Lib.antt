pub mod Geometry
pub mod Cutting
pub mod Firsts
pub mod Between
pub mod Owns
pub mod Listing
pub mod Near
pub mod Decided
