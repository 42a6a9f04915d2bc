pub mod FindingLemmas
pub mod KindLaws
pub mod SayLemmas
pub mod Walking
