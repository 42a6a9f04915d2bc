pub mod TotalLemmas
pub mod AskingLaws
pub mod GenLaws
pub mod TallyRows
