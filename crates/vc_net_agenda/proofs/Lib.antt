pub mod AgendaLaws
pub mod AgendaRows
pub mod PendingLaws
