pub mod Position
pub mod PositionLaws
