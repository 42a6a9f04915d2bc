pub mod Chains
pub mod Culprits
pub mod Replies
