pub mod Boards
pub mod Fitting
