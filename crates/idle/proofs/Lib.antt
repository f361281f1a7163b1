-- Laws of Idle.
-- Assumes nothing.
pub mod Turns
pub mod Refines
