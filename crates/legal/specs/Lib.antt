pub mod Legal
pub mod Number
pub mod Updates
pub mod laws
