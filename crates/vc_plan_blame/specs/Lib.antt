pub mod Blame
pub mod Laws
