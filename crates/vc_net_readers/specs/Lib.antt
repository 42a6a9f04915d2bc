pub mod Filing
pub mod Glances
pub mod Laws
pub mod Lists
pub mod Readers
pub mod Rising
pub mod Touched
pub mod Waiting
