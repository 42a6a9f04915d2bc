-- Worked rows, by computing. Beside what is so stands what would be so by a likely slip, and isn't.
pub mod Bills
pub mod Cutting
pub mod Demands
pub mod Models
pub mod Parents
pub mod Refusals
pub mod Stages
pub mod Standing
pub mod Tuples
pub mod Words
