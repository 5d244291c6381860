pub mod DepthTable
pub mod Leaves
pub mod Passes
