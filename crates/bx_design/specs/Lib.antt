pub mod Certificates
pub mod Solutions
pub mod Making
pub mod Meaning
pub mod Permits
