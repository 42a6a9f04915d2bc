pub mod Borrowed
pub mod Referents
pub mod Seen
