pub mod Sizes
pub mod Reading
pub mod Writing
pub mod Flags
pub mod Arrays
pub mod Rewritten
pub mod Restored
