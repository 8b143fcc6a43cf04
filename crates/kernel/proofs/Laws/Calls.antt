pub mod Threads
pub mod Clock
pub mod Semaphores
pub mod Queues
pub mod Groups
pub mod Pools
