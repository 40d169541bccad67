pub mod Texts
pub mod Ports
pub mod Reports
pub mod Parts
