pub mod BlameLaws
pub mod BlameRows
