pub mod Known
pub mod Alike
