pub mod AskingLaws
pub mod FittingLaws
pub mod GuardLemmas
pub mod HidingLemmas
pub mod SetLemmas
