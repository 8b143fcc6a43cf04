pub mod Blocks
pub mod Layout
pub mod State
pub mod Bytes
pub mod Restored
