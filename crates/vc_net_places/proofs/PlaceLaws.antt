-- Laws of places.
pub mod Cells
pub mod Numbering
pub mod Things
