pub mod ExtentLaws
pub mod MessageLaws
