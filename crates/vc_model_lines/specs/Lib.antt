pub mod Classified
pub mod Counts
pub mod Forms
pub mod Keywords
pub mod LineWords
pub mod Quoted
pub mod WordSpellings
