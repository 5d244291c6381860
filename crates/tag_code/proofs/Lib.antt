pub mod Fields
pub mod Codes
