-- Laws of what is written.
-- Assumes nothing.
pub mod Plain
pub mod ReadBack
pub mod Laid
pub mod Each
