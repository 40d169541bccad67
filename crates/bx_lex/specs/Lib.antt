pub mod Bytes
pub mod Rules
pub mod Kinds
pub mod Tokens
