pub mod Fit
pub mod Held
pub mod Ticks
