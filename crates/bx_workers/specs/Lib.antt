pub mod Results
pub mod Pulses
pub mod Working
pub mod Ordering
pub mod Racing
