pub mod Gathering
pub mod Lines
pub mod Progress
