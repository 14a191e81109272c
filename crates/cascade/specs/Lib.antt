pub mod Cascade
pub mod Cut
pub mod Promise
