pub mod Reply
pub mod Outgoing
pub mod Carry
pub mod Turns
pub mod Turn
pub mod Writing
pub mod Call
pub mod Fresh
