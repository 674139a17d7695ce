pub mod Turn
pub mod Standing
pub mod StandingPublic
pub mod Exactly
pub mod Unrestored
