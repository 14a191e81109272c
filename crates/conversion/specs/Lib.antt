pub mod Conversion
pub mod ConversionTable
