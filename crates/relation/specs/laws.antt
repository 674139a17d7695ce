pub mod Relation
pub mod Answer
pub mod Question
pub mod Bodies
pub mod QuestionLaws
pub mod Reached
