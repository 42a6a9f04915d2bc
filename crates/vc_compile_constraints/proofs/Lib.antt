pub mod ConstraintLemmas
