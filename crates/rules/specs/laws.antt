pub mod Table
pub mod Search
pub mod Exact
pub mod Columns
pub mod Column
pub mod Ruled
pub mod Digits
pub mod Digit
