pub mod Answer
pub mod Tables
