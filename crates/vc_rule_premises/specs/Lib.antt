pub mod Cited
pub mod Citing
pub mod Deciding
pub mod Laws
pub mod Saying
pub mod Sufficing
