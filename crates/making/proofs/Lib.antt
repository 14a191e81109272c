pub mod Drawing
pub mod Tables
