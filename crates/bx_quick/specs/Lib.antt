pub mod Operations
pub mod LaneStates
pub mod Grids
pub mod Pins
pub mod Faults
pub mod Chains
