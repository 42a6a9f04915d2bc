pub mod ReplyRows
pub mod ChainRows
