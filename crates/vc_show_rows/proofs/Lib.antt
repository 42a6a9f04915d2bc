pub mod FindingLemmas
pub mod FittingLaws
pub mod JoinLemmas
pub mod RowRows
