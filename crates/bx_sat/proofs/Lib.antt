pub mod Endings
pub mod Writing
pub mod Values
pub mod ValueLines
pub mod Numbers
pub mod Found
