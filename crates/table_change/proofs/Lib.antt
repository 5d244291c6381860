pub mod Rerooted
pub mod SoundAfter
pub mod FoundEntries
pub mod Leaving
pub mod Changed
pub mod RowChoice
pub mod Entering
pub mod Opening
