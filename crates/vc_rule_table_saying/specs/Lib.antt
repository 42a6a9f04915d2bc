pub mod Calls
pub mod Sharing
pub mod Skipping
