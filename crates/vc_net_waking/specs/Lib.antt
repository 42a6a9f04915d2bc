pub mod Beginning
pub mod Laws
pub mod Spending
pub mod Waking
