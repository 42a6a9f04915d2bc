pub mod ConditionLexemes
pub mod ConstraintLexemes
pub mod DependencyLexemes
pub mod Places
pub mod StatementLexemes
pub mod TermLexemes
