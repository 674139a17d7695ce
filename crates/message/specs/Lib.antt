pub mod Command
pub mod Message
pub mod Unreadable
pub mod laws
