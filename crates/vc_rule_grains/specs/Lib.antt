pub mod Confining
pub mod Finding
pub mod Kinds
pub mod Laws
pub mod Remaining
pub mod Tests
