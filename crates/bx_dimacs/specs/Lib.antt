pub mod Words
pub mod FormulaTexts
pub mod Keeping
pub mod Shown
pub mod ProofTexts
pub mod Proofs
pub mod StepsShown
pub mod Faults
