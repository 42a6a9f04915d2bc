pub mod SlipRows
