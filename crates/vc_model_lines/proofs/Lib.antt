pub mod ClosingLemmas
pub mod CountLemmas
pub mod CutLemmas
pub mod FormLemmas
pub mod WordLemmas
pub mod WordParts
