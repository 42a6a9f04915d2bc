pub mod Counting
pub mod NameLaws
pub mod Pieces
pub mod Reading
