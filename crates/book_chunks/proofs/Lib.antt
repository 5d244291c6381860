pub mod Passing
pub mod EveryInput
