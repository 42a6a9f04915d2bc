pub mod Growing
pub mod Marks
