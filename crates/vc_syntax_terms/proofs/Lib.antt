pub mod Chains
pub mod ConditionCompleteness
pub mod ConditionSoundness
pub mod Lists
pub mod TermCompleteness
pub mod TermSoundness
pub mod TokenLaws
