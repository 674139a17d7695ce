pub mod Commands
pub mod Take
pub mod Call
pub mod laws
