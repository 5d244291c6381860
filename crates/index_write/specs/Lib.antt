pub mod Storing
pub mod Standing
