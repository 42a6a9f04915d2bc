pub mod FaultRows
