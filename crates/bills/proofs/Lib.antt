pub mod Sums
pub mod Served
pub mod Totals
pub mod Running
pub mod Serving
