pub mod Fit
pub mod Ticks
pub mod Ends
