pub mod Header
pub mod Records
pub mod Edges
pub mod Turns
pub mod Damage
pub mod Going
pub mod Proved
