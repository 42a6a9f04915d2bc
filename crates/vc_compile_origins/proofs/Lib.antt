pub mod OriginLaws
pub mod Origins
pub mod RelationLaws
pub mod SignLaws
pub mod SiteLaws
pub mod StandingLaws
pub mod SumLaws
pub mod TableLaws
