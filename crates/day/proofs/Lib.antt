pub mod Chain
pub mod Shown
pub mod Days
