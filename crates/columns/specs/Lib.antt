pub mod Column
pub mod ClassLaws
