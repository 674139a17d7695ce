pub mod Needed
pub mod laws
