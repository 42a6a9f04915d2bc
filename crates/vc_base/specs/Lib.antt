pub mod Chains
pub mod Growing
pub mod Kept
pub mod Numbers
pub mod Rounds
pub mod Runs
pub mod Sets
pub mod Spreading
