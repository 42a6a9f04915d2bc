pub mod AnswerLaws
pub mod ConflictLaws
pub mod CostLaws
mod EditingRows
pub mod OpenLaws
pub mod SavedLaws
pub mod TaskLaws
