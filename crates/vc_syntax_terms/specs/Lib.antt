pub mod ConditionGrammar
pub mod ConditionReading
pub mod Leaves
pub mod Reading
pub mod TermGrammar
pub mod TermReading
