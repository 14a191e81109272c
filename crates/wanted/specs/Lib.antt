pub mod Refusing
pub mod Wanted
