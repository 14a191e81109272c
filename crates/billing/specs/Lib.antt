pub mod Billed
pub mod Tables
