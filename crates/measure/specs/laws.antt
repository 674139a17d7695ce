pub mod Repeated
pub mod RepeatedLaws
