pub mod FirstLines
pub mod BadLines
pub mod Numbers
pub mod Stuck
pub mod Above
pub mod Deciding
