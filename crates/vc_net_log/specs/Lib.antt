pub mod Coming
pub mod Differing
pub mod Going
pub mod Keeping
pub mod Laws
pub mod Logs
pub mod Numbers
pub mod Staying
