pub mod BeginningLaws
pub mod ComingLaws
pub mod CountLaws
pub mod GiverLaws
pub mod SpendLaws
pub mod StartLaws
pub mod WakingLaws
