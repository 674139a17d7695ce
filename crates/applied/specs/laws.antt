pub mod After
pub mod KeepsStates
pub mod SameStates
pub mod Step
pub mod StepFormed
