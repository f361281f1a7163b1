-- Laws about the table of states.
pub mod Lookup
pub mod Table
