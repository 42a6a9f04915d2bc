pub mod InferringLemmas
pub mod RuleLemmas
