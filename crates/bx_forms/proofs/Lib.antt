pub mod Exchange
pub mod Lines
pub mod Names
pub mod Nodes
pub mod Tables
