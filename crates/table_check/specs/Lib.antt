pub mod Walks
pub mod Trees
