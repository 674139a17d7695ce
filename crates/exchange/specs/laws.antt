pub mod SameClasses
pub mod Taken
pub mod Given
pub mod Refused
