pub mod Runs
pub mod Cases
pub mod Counted
pub mod TwoRuns
