-- Laws of the lists of ids.
-- Assumes nothing.
pub mod Listing
