pub mod CheckLaws
pub mod CountLaws
