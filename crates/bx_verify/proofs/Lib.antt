mod Permits
mod Unproved
pub mod Offs
pub mod Parts
pub mod Stages
mod Judging
pub mod Meanings
mod Exact
