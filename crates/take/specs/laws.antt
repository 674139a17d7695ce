pub mod Commands
pub mod CommandsKept
pub mod Take
pub mod TakeKept
pub mod TakenExactly
pub mod RefusedExactly
pub mod TakePublic
pub mod Progress
