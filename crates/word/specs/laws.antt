pub mod Bit
pub mod Bools
pub mod Search
