pub mod ComingLaws
pub mod ComingRows
pub mod CountLaws
pub mod FreeLaws
pub mod StandingLaws
pub mod StandingRows
