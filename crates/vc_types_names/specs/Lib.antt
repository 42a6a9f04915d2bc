pub mod FirstNames
pub mod Members
