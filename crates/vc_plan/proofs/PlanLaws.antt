-- Laws of plans: what is clear, what grows, and what each kind of rule gives at a larger set.
pub mod Answers
pub mod Atoms
pub mod Bound
pub mod Counts
pub mod Depths
pub mod Extending
pub mod Facts
pub mod Givers
pub mod Lists
pub mod Rounds
pub mod Rules
pub mod TableRows
pub mod Truths
