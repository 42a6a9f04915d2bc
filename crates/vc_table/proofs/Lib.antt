pub mod RecordLemmas
pub mod TableLemmas
pub mod TextLemmas
