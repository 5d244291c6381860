pub mod MetPages
pub mod WholeTree
pub mod Verdict
