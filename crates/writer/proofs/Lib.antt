-- Laws of lists of numbers, as they are written.
-- Assumes nothing.
pub mod Numbers
