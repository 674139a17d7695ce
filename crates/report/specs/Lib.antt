pub mod Report
pub mod Reported
pub mod laws
