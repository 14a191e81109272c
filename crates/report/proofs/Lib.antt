pub mod Most
pub mod Chain
pub mod Written
