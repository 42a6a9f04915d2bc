pub mod YieldLemmas
