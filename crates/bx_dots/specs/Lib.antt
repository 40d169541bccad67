pub mod Places
pub mod GridDots
pub mod Cuts
pub mod Reading
pub mod Permits
