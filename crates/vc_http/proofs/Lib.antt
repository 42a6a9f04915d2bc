pub mod AnswerLaws
pub mod BoundLaws
pub mod TakingLaws
pub mod TurnLaws
