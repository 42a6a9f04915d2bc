pub mod NetLaws
pub mod NetRows
