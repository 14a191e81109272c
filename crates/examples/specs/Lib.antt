pub mod Build
pub mod Reading
pub mod Opened
pub mod Table
