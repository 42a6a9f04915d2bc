pub mod Explaining
pub mod Leaving
pub mod Marking
pub mod Telling
