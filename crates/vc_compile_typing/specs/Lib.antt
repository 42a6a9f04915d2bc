pub mod Alike
pub mod Finding
