pub mod Chain
pub mod Bounds
pub mod Standing
pub mod Written
