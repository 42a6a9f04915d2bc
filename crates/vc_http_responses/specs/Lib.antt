pub mod Responses
pub mod Sending
