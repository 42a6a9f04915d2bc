pub mod Assigning
pub mod Comparing
pub mod Equating
pub mod Laws
pub mod Sides
