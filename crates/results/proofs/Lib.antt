-- Laws of taking key generation's results.
-- Assumes nothing.
pub mod Walks
pub mod Flags
pub mod Refines
