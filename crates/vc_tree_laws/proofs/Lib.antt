pub mod ConditionLaws
pub mod CountLaws
pub mod ModelTreeLaws
pub mod ReadingLemmas
pub mod StatementLaws
pub mod TermLaws
pub mod TokenLaws
pub mod TreeLaws
