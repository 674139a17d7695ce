pub mod From
pub mod Lists
pub mod Decide
pub mod Pool
pub mod Shown
pub mod laws
