pub mod StoredRows
pub mod HeaderLaws
pub mod Writing
pub mod RowWriting
pub mod StandingLaws
pub mod LoadedRows
