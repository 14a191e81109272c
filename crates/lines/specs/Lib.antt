pub mod Table
pub mod Listing
pub mod Promise
