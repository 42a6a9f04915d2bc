pub mod Drafts
pub mod Models
pub mod Seen
