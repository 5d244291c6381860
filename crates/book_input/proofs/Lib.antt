pub mod GatheredLines
pub mod TakenBytes
pub mod TakenPlaces
