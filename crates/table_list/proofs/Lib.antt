pub mod Visits
pub mod PlaceLeaves
pub mod VisitSteps
pub mod RowWalks
pub mod PlaceWalks
pub mod ListedHerds
