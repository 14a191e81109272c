pub mod Reading
pub mod Front
pub mod Parse
pub mod Slices
pub mod Afresh
pub mod Steps
pub mod Asked
pub mod Back
