pub mod Lines
pub mod Bills
pub mod Tables
mod Cases
