pub mod Plans
pub mod Outcomes
