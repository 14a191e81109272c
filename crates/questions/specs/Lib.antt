pub mod Headroom
pub mod Tables
