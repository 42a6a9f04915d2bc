pub mod Adding
pub mod Levels
