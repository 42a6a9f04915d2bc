pub mod FirstTokens
pub mod Lengths
pub mod LexemesAgain
pub mod LexemesGood
pub mod NumbersAgain
pub mod Quotes
pub mod TextsAgain
pub mod TokensFrom
