pub mod Counting
pub mod Doors
pub mod MemoryDoors
pub mod MemoryLinks
