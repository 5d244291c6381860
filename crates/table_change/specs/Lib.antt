pub mod Changes
pub mod News
pub mod FoundKeys
