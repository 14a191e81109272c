pub mod Cells
pub mod Adding
pub mod CellLaws
pub mod CellSums
pub mod GroupSums
