pub mod Flags
pub mod Least
pub mod laws
