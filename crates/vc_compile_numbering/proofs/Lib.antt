pub mod NumberingLaws
pub mod StepLemmas
