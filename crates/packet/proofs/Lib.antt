-- Laws about what the reader asks.
pub mod Laws
