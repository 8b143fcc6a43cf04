pub mod Threads
pub mod Orders
pub mod Choice
pub mod Loops
pub mod Changes
pub mod Sound
pub mod Claims
pub mod Cases
