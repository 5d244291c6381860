pub mod Iff
pub mod Gathered
pub mod ZeroBytes
pub mod Headers
