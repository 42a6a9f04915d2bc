pub mod GiverLaws
pub mod LastLaws
pub mod RoomLaws
pub mod SilenceLaws
