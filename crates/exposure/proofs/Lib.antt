pub mod HalfLaws
pub mod ValueLaws
