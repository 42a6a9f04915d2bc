pub mod Faults
pub mod Keepers
pub mod MemoryKeepers
pub mod MemoryShelves
pub mod MemorySinks
pub mod Shelves
pub mod Sinks
