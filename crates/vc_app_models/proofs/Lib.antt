pub mod LoadingLaws
pub mod OneLaws
