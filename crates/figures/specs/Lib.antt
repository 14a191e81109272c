pub mod Fund
pub mod Report
pub mod Read
pub mod LeastCuts
