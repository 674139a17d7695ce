pub mod Bytes
pub mod Form
pub mod Kinds
pub mod Same
pub mod Credential
pub mod Order
pub mod laws
