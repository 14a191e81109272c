pub mod InBuffer
pub mod Behind
