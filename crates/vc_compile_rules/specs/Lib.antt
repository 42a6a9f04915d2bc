pub mod Adding
pub mod Inferring
