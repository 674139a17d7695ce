pub mod InTurn
pub mod Justified
pub mod Inside
pub mod Implied
pub mod Linked
pub mod ImpliedLaws
