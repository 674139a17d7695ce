pub mod Frontier
pub mod Queue
pub mod QueueLaws
