pub mod Traced
pub mod Known
pub mod Passing
pub mod Twins
pub mod Tests
