pub mod CourseLaws
pub mod EndLaws
pub mod TalkLaws
pub mod TalkRows
