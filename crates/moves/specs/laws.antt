pub mod Initial
pub mod FrontiersExact
pub mod Stops
pub mod Own
pub mod Candidates
pub mod Members
pub mod Known
pub mod KnownStays
