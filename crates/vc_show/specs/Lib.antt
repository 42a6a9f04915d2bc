pub mod Asking
pub mod Fitting
pub mod Places
pub mod Sets
