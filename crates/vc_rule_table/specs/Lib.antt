pub mod Cells
pub mod Fitting
pub mod Laws
pub mod Noting
pub mod NotingColumns
pub mod Reasons
pub mod TableSaid
