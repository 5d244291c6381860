pub mod Placing
pub mod Inserting
pub mod NewRoots
pub mod Putting
