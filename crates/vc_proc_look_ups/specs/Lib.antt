pub mod LookUps
pub mod Orders
pub mod Ranks
