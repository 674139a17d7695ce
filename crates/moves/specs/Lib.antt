pub mod Known
pub mod Initial
pub mod Frontiers
pub mod Rules
pub mod Move
pub mod Carried
pub mod Candidates
pub mod laws
