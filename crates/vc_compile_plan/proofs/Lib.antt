pub mod PlanLaws
pub mod PlanRows
