-- Laws of settling one atom at a time.
pub mod Forced
pub mod Triggers
pub mod Waking
pub mod Wakings
pub mod Working
