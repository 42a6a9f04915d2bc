pub mod AsciiLaws
pub mod BackLaws
pub mod FormLaws
pub mod FormRows
pub mod Utf8Laws
