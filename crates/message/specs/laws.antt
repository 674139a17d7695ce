pub mod Command
pub mod CommandExact
