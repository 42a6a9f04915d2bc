pub mod Counts
pub mod Generating
pub mod Lines
pub mod Tallies
