pub mod Posting
pub mod Done
