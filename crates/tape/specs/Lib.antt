pub mod Tapes
pub mod Replies
pub mod Cases
