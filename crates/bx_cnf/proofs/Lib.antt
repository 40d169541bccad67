pub mod Flats
pub mod Formulas
pub mod Propagation
