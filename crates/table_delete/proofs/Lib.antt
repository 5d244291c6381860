pub mod Lowering
pub mod RootLeft
pub mod SoundLinks
pub mod Finishing
pub mod TakingOut
pub mod QuietWays
pub mod TakingAt
pub mod Blanks
