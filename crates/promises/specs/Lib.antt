pub mod Exported
pub mod Tenfold
