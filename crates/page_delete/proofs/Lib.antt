pub mod NearRows
pub mod StayingEntries
