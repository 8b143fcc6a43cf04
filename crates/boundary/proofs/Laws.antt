pub mod Worded
pub mod Effects
pub mod Fits
pub mod Tapes
pub mod Claims
