pub mod AmountLemmas
pub mod BillLemmas
pub mod ComponentLemmas
pub mod DigitLemmas
pub mod FittingLaws
pub mod SelectingLemmas
pub mod TextRows
