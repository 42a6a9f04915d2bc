pub mod Above
pub mod RefusalLaws
pub mod SizeLaws
pub mod ValidLaws
