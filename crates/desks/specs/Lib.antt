pub mod BookLines
pub mod Pass
mod LineCases
