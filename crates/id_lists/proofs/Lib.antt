-- Laws of lists of ids.
-- Assumes nothing.
pub mod Given
pub mod Repeats
pub mod Adding
