pub mod Names
pub mod Typing
pub mod Listed
