-- Worked rows of blame, by computing. Beside what is so stands what would be so by a likely slip, and isn't.
pub mod Culprits
pub mod Searches
