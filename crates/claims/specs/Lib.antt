pub mod Lists
pub mod Rolls
pub mod Cases
pub mod Witnesses
pub mod Accounts
pub mod Priorities
