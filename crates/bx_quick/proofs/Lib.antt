pub mod ChainLinks
pub mod ChainSound
pub mod ChainTiles
pub mod ChainValues
pub mod InputPins
pub mod LaneRuns
pub mod NetworkComputes
pub mod NetworkRuns
pub mod NodeTurns
pub mod OnTheWay
mod Steps
