pub mod Standing
pub mod Turn
pub mod Buffers
pub mod Holds
pub mod laws
