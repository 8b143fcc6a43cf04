pub mod Tables
pub mod Inspect
