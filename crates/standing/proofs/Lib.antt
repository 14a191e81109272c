pub mod Tiers
pub mod Groups
