pub mod Graph
pub mod Form
pub mod States
pub mod Propagated
pub mod Find
pub mod Growth
pub mod Processed
pub mod laws
