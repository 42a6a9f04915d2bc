pub mod PlanLaws
pub mod PlanRows
pub mod StageRows
pub mod StageProofs
