pub mod Citing
pub mod Clashing
pub mod Families
