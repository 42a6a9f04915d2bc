pub mod MeantLaws
pub mod MeantRows
pub mod NameLaws
