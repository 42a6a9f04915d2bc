pub mod Methods
pub mod Routes
pub mod Rows
