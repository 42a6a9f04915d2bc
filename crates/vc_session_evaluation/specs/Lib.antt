pub mod Costing
pub mod Evaluating
pub mod Following
pub mod Going
pub mod Sharing
pub mod Writing
