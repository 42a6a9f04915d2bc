pub mod SearchLaws
pub mod SegmentLaws
pub mod RouteLaws
pub mod RouteRows
