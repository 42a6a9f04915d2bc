-- Laws of reasons, of what is kept and of what rules read and write.
pub mod Agreeing
pub mod Blaming
pub mod Closed
pub mod Dropping
pub mod Few
pub mod Fitting
pub mod Givers
pub mod Keeping
pub mod Local
pub mod Reaching
pub mod Refuting
pub mod Spreading
pub mod Trimming
pub mod Writing
