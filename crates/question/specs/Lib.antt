pub mod Credentials
pub mod Question
pub mod Asked
pub mod Refused
pub mod laws
