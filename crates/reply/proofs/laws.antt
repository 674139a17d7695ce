pub mod Moved
pub mod ReplyLegal
pub mod Cases
pub mod ReplyLength
pub mod Turns
pub mod Reply
