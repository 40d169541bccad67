pub mod FormNames
pub mod PlainTexts
pub mod Printed
pub mod Reportable
pub mod Reports
pub mod Spellings
pub mod Standing
