pub mod Decimals
pub mod Grains
pub mod Words
pub mod Names
pub mod Numerals
pub mod Millionths
