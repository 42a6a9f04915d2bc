pub mod ShortWords
pub mod Trees
