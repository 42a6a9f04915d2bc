pub mod InTurn
pub mod Parts
