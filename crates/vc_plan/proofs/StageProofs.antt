-- Proofs of the laws of stages and bills.
pub mod BillLists
pub mod Brought
pub mod Decided
pub mod Items
pub mod LastStage
pub mod Levels
pub mod Nested
pub mod Own
pub mod OwnLines
pub mod Owners
pub mod Parents
pub mod ShownLines
pub mod TakenLines
pub mod Upward
