pub mod FieldLaws
pub mod LineLaws
pub mod Examples
pub mod Written
