pub mod Record
pub mod Unreadable
pub mod laws
