pub mod DeclaredNames
pub mod Found
pub mod Instances
pub mod Kinds
pub mod Typing
