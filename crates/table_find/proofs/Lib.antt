pub mod FoundLeaves
