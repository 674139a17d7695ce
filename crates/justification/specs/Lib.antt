pub mod InTurn
pub mod Justified
pub mod laws
