pub mod Lists
pub mod Pool
pub mod Added
pub mod Find
pub mod Shown
pub mod Bodies
pub mod Heads
