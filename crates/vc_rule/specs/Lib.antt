pub mod Bounding
pub mod Evaluating
pub mod Following
pub mod Giving
pub mod Laws
pub mod Resting
pub mod Rooming
pub mod Rooms
