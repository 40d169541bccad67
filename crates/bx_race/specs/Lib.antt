pub mod Draws
pub mod Core
pub mod Fair
pub mod Rule
pub mod Seats
pub mod Finished
