pub mod Raw
pub mod Movement
pub mod Promise
