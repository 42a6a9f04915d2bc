pub mod NumberLemmas
mod WritingLemmas
