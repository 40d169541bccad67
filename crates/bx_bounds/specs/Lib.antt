pub mod Numbers
pub mod Ancestors
pub mod Windows
pub mod Borders
pub mod Refutes
pub mod Precedes
pub mod Rows
