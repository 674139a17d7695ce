pub mod Refusals
pub mod Sizes
pub mod Bytes
pub mod Answer
pub mod laws
