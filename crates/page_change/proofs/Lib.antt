pub mod OpenedPages
pub mod PageParts
pub mod PageChanges
pub mod WholePages
