pub mod Logic
pub mod Lists
pub mod Lines
pub mod Slots
pub mod Loops
