pub mod Refusals
pub mod Chain
pub mod Laws
pub mod Search
pub mod Numbers
