pub mod States
pub mod Learning
pub mod Searching
pub mod Trails
pub mod Solving
pub mod Marks
