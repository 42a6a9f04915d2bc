pub mod ConstraintCompleteness
pub mod ConstraintSoundness
pub mod DependencyLaws
pub mod SpelledLaws
pub mod StatementCompleteness
pub mod StatementSoundness
