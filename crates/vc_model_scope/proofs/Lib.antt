pub mod ScopeLaws
pub mod NameLemmas
