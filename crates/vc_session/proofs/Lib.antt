pub mod EditRows
pub mod ExplainLaws
pub mod UserLaws
