pub mod Dummies
pub mod NewLeaves
pub mod NewsWriting
