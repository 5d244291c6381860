pub mod Scans
pub mod Gatherings
