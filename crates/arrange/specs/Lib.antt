pub mod Records
pub mod Arranged
pub mod Arrange
pub mod Arrangement
pub mod laws
