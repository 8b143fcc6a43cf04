pub mod Pools
pub mod Views
