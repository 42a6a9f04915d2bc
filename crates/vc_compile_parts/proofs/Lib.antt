pub mod InTurnLaws
pub mod RoomLaws
