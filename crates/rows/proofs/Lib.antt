pub mod Filling
pub mod Ranked
