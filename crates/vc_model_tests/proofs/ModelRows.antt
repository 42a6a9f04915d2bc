-- The model of a text, computed part by part, with the likeliest slips beside.
pub mod Pumps
pub mod Blocks
pub mod Values
pub mod Bills
pub mod Small
