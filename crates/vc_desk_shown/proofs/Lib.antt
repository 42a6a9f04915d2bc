pub mod ChosenLemmas
pub mod ShownLaws
