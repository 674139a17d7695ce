pub mod After
pub mod Step
pub mod laws
