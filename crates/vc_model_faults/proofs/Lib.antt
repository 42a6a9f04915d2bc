pub mod FirstLaws
pub mod KindLaws
pub mod LinesLaws
