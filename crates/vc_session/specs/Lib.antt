pub mod Costing
pub mod Edits
pub mod Explained
pub mod Sessions
