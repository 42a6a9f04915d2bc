pub mod ReasonLaws
pub mod ReasonRows
