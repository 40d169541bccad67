pub mod Few
pub mod Looking
pub mod Working
pub mod Ordering
pub mod Lengths
pub mod Showing
pub mod Due
pub mod Crews
