pub mod Tapes
pub mod Cases
pub mod Replies
