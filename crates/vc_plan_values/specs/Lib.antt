pub mod Computing
pub mod Values
