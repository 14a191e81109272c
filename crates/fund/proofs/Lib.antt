pub mod MostLines
pub mod OrderLaws
pub mod Limits
pub mod Cents
pub mod OneTreaty
pub mod Together
