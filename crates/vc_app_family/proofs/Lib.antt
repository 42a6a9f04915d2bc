pub mod FamilyRows
pub mod JoinLemmas
