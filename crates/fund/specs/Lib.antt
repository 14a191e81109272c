pub mod Figures
pub mod Fund
pub mod Tables
