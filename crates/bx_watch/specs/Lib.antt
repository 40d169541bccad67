pub mod Watching
pub mod Readings
pub mod Lists
pub mod Watches
pub mod Keeping
