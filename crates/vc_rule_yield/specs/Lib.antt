pub mod Filling
pub mod Scratches
pub mod Yielding
