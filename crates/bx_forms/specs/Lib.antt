pub mod Kinds
pub mod Sides
pub mod Forms
pub mod FormTable
pub mod FormSets
