-- Laws of the timeouts' test.
-- Assumes nothing.
pub mod States
pub mod Answering
pub mod Refines
