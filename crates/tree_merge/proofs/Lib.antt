pub mod EntryReads
pub mod GatheredPages
pub mod JoinLaws
pub mod JoinedPages
pub mod MergeLaws
pub mod NeighbourLaws
pub mod NeighbourTests
pub mod PairLaws
