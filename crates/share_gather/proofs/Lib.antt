-- Laws of SigShareGather.
-- Assumes nothing.
pub mod Removed
pub mod Freeing
pub mod Answering
pub mod Refines
