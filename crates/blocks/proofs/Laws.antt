pub mod Listings
pub mod Pools
pub mod Views
