-- Worked rows of reasons, by computing. Beside what is so stands what would be so by a likely slip, and isn't.
pub mod Below
pub mod Chains
pub mod Clashes
pub mod Keepings
pub mod Restrictions
pub mod Sources
pub mod Statuses
pub mod Steps
pub mod Touched
pub mod Trimmings
