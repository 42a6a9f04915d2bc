pub mod AnyLemmas
