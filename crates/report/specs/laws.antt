pub mod Report
pub mod ReportPublic
pub mod Exactly
