pub mod Ranges
pub mod Listings
