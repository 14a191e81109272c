pub mod Printed
pub mod Cut
pub mod Table
