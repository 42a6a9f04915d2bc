-- Cases of faults, computed: for each kind texts that have it, and others that miss it by little.
pub mod Small
pub mod Names
pub mod Sorts
pub mod Places
pub mod Sizes
