pub mod Mirror
pub mod Given
pub mod laws
