pub mod Runs
pub mod Built
pub mod Counted
pub mod Cases
pub mod laws
