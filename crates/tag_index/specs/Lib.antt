pub mod Tables
pub mod Changing
pub mod Loads
pub mod LoadTurns
pub mod Histories
pub mod Reading
pub mod Claims
