pub mod Covered
pub mod Pass
pub mod Owners
pub mod Start
pub mod ByPlace
pub mod Bounds
mod Cases
