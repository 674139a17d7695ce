pub mod RunsKept
pub mod ReplyPublic
pub mod Stays
pub mod TwoReplies
pub mod Acknowledged
pub mod Built
pub mod NoName
