pub mod Fitting
pub mod Joining
pub mod Rows
pub mod Texts
