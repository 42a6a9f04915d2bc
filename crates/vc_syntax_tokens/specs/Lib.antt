pub mod Faults
pub mod Lexemes
pub mod Limits
pub mod Spellings
pub mod Texts
pub mod Tokens
pub mod Written
