pub mod DeskLaws
pub mod ServeLaws
pub mod VisitLaws
