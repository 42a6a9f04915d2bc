pub mod CutLaws
pub mod DemandLaws
pub mod GrainLaws
pub mod MarkLaws
pub mod NumberLaws
pub mod SideLaws
