pub mod Counts
pub mod FairSteps
pub mod Ends
pub mod CoreSteps
pub mod RuleSteps
pub mod Joining
