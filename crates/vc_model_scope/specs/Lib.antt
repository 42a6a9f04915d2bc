pub mod Contents
pub mod Entries
pub mod LookAhead
pub mod Names
pub mod Naming
pub mod Recursions
pub mod Scope
pub mod Stands
