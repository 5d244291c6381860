pub mod NumberLaws
pub mod TagLaws
