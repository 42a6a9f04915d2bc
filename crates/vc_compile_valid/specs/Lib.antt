pub mod Domains
pub mod Models
pub mod Places
pub mod Plans
pub mod Rules
pub mod Slots
