pub mod ResponseLaws
pub mod ResponseRows
