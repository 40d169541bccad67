pub mod Logs
pub mod Closed
pub mod Numbers
pub mod StepLines
pub mod LogGrammar
pub mod OneLog
pub mod Deciding
