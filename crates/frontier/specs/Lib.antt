pub mod Frontier
pub mod laws
