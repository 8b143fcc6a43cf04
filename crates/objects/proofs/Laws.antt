pub mod Queues
pub mod Groups
