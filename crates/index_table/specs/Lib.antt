pub mod Bytes
pub mod Layout
pub mod Header
pub mod Pages
pub mod Soundness
pub mod Answers
pub mod IndexNumbers
pub mod Refusals
