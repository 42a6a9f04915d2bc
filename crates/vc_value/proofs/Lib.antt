pub mod CutLaws
pub mod CutLemmas
pub mod DigitLemmas
pub mod GrainLemmas
pub mod MillionthRows
pub mod NumeralLaws
pub mod NumeralLemmas
pub mod PowerLemmas
