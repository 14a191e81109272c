pub mod Words
pub mod Sums
pub mod Ranges
pub mod Choice
pub mod Tables
pub mod Below
