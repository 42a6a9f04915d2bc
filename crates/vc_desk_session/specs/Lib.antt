pub mod Edits
pub mod Reasons
pub mod Telling
