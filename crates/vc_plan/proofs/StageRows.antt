-- Worked rows of evaluations, by computing. Beside what is so stands what would be so by a likely slip, and isn't.
pub mod Fitting
pub mod Gears
pub mod Machines
pub mod Paints
pub mod PumpBills
pub mod Showings
pub mod StageModels
pub mod Summing
pub mod Writing
