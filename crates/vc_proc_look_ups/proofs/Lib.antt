pub mod OrderLemmas
pub mod PutLemmas
pub mod RankLaws
pub mod SearchLaws
