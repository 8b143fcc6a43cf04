pub mod Texts
pub mod Threads
pub mod Objects
pub mod Records
