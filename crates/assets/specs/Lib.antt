pub mod Marks
pub mod Shares
pub mod Halves
pub mod Entered
pub mod Assets
