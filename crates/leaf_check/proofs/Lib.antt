pub mod EntryTests
pub mod DepthTable
pub mod PassTests
pub mod RowTurns
pub mod UncountedTurns
pub mod PassTurns
