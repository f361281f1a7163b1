-- Laws of NonceGather.
-- Assumes nothing.
pub mod Recording
pub mod Answering
pub mod Refines
