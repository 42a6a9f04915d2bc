pub mod ColumnLaws
pub mod LiteralLaws
pub mod MeantLaws
pub mod ProcedureLaws
pub mod RangeLaws
pub mod RuleLaws
pub mod SaidLaws
pub mod TextLaws
