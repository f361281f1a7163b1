-- Laws of starts.
-- Assumes nothing.
pub mod Writes
pub mod Begins
pub mod Refines
pub mod Given
