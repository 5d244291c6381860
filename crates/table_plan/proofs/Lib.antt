pub mod PartDepths
pub mod CountedPages
pub mod SplicedRows
pub mod SameDepths
pub mod GrowingRoots
pub mod PlannedPages
pub mod InsertionPlans
