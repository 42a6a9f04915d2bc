pub mod Gathered
pub mod Met
pub mod Seen
