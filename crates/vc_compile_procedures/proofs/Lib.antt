pub mod ProcedureLemmas
