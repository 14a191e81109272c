mod Checking
mod Made
mod Size
mod Zeros
