pub mod Endings
pub mod Exactness
pub mod Statuses
