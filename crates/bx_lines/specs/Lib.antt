pub mod Lines
pub mod Grammars
pub mod Decimals
