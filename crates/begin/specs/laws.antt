pub mod Begin
pub mod Refused
pub mod Kept
