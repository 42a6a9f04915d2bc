pub mod Agendas
pub mod Pending
