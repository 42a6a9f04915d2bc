pub mod ListSizeLaws
pub mod LookUpLaws
pub mod SizeLaws
pub mod StatementLaws
pub mod TermSizeLaws
