pub mod Packed
pub mod Version
