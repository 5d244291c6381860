pub mod Keeping
pub mod Rows
pub mod Unwinding
pub mod Removing
