pub mod Header
pub mod Records
pub mod Edges
pub mod Damage
pub mod laws
