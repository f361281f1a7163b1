-- Laws of taking shares.
-- Assumes nothing.
pub mod Answering
pub mod Refines
