pub mod Failing
pub mod Sections
pub mod Cutting
pub mod Answers
pub mod Meaning
