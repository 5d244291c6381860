pub mod Repaged
pub mod PageOpening
