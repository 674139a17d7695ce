pub mod Record
pub mod RecordExact
pub mod Unreadable
pub mod Size
