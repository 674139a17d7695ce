pub mod Rules
pub mod Words
pub mod Laws
