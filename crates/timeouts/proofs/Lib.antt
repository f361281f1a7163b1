-- Laws of timeouts and of their results.
-- Assumes nothing.
pub mod Writes
pub mod Asked
pub mod Refines
