pub mod CallLaws
pub mod ChainLemmas
pub mod ConcludingSteps
pub mod KeyLemmas
pub mod MarkLemmas
