pub mod Capping
pub mod Counting
pub mod Keeping
pub mod Meeting
pub mod Raising
