-- Laws of blame.
pub mod Broken
pub mod Citing
pub mod Clashing
pub mod Colliding
pub mod Growing
pub mod LastStep
pub mod Named
pub mod Origins
pub mod Sources
pub mod Unclear
