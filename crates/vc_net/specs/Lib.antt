pub mod Costing
pub mod Differing
pub mod Ending
pub mod Nets
pub mod Spending
