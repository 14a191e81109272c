pub mod A3
pub mod Laws
pub mod Cases
