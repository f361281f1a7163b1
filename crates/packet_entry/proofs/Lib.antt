-- Laws of a packet that is taken, by the call that brings it.
-- Assumes nothing.
pub mod Entering
pub mod Refines
