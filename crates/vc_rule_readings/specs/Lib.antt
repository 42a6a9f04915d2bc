pub mod Beside
pub mod Finding
pub mod Laws
pub mod Parted
pub mod Summing
