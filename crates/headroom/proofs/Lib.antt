pub mod Along
pub mod Closed
pub mod Greatest
pub mod Orders
pub mod Going
