pub mod Moving
pub mod Day
mod MovementTable
