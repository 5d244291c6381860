pub mod EmptySound
pub mod EmptyTables
pub mod FormatLimits
