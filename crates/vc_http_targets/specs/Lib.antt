pub mod Asked
pub mod Targets
