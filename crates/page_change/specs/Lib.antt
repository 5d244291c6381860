pub mod Opening
pub mod Changing
