pub mod Reading
pub mod Converted
