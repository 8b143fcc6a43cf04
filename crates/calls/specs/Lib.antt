pub mod Statuses
pub mod Held
pub mod Services
pub mod Callers
pub mod Calls
pub mod Chains
pub mod Refusals
pub mod Messages
