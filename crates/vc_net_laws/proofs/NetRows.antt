-- Worked rows of settling one atom at a time, by computing. Beside what is so stands what would be so by a likely slip,
-- and isn't.
pub mod Disturbed
pub mod Triggers
pub mod Wakings
