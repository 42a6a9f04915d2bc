pub mod LookUps
pub mod Sizes
