pub mod OverLaws
pub mod MovedBytes
