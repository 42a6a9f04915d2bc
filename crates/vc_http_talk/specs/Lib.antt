pub mod Courses
pub mod Laws
pub mod Talk
