pub mod Postable
