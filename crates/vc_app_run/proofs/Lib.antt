pub mod EndingLaws
pub mod ExactnessLaws
pub mod SinkLaws
pub mod StatusLaws
