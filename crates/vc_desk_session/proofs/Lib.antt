pub mod AskingLaws
pub mod EditLaws
mod TellingRows
