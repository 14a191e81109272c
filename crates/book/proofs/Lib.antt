pub mod TopLaws
