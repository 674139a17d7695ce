pub mod Messages
pub mod State
pub mod Layout
pub mod Ends
pub mod laws
