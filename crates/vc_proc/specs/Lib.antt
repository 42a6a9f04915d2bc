pub mod Laws
pub mod LookingUp
pub mod Overlays
pub mod Stages
pub mod Writing
