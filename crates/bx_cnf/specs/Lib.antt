pub mod Literals
pub mod Formulas
pub mod Assignments
pub mod Flat
