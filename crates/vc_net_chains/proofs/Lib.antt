pub mod LastLaws
pub mod LeftLaws
pub mod MarkLaws
