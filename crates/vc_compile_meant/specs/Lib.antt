pub mod Calls
pub mod Scopes
pub mod Sorts
pub mod Sums
pub mod Trees
