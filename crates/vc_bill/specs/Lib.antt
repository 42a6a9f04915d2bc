pub mod Components
pub mod Fitting
pub mod Texts
pub mod Walking
