pub mod Counts
pub mod Readying
pub mod Serving
pub mod Telling
pub mod Visits
