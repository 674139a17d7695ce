pub mod Messages
pub mod State
pub mod Within
pub mod Layout
pub mod Read
pub mod Codec
pub mod Ends
