pub mod PlaceLaws
pub mod PlaceRows
