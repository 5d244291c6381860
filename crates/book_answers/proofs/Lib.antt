pub mod Decimals
pub mod Writing
pub mod Lines
pub mod Examples
