pub mod Laws
pub mod Marking
pub mod Meaning
pub mod Reading
pub mod Saving
