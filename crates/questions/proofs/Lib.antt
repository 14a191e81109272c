pub mod Chain
mod Answering
mod Written
