pub mod Taking
pub mod Blanking
