pub mod Showing
pub mod ToldLines
pub mod EveryBook
