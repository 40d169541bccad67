pub mod Certs
pub mod Texts
pub mod Grammar
pub mod Readings
