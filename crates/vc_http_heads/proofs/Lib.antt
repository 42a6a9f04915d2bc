pub mod LineLaws
pub mod FieldLaws
pub mod HeadLaws
pub mod HeadRows
