pub mod AfterLaws
pub mod AssignLemmas
pub mod FollowingLaws
pub mod PassingLaws
pub mod SaidLaws
pub mod SidesLaws
pub mod SidesSaidRows
