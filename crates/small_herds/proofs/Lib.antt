pub mod SmallHerds
pub mod SmallPages
