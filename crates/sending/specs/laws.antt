pub mod Picked
pub mod Behind
pub mod Unshown
pub mod Sent
pub mod SentLaws
pub mod Edge
pub mod Relevant
pub mod Fresh
