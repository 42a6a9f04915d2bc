pub mod ConstraintGrammar
pub mod ConstraintReading
pub mod DependencyGrammar
pub mod DependencyReading
pub mod DependencyTexts
pub mod Spelled
pub mod StatementGrammar
pub mod StatementReading
