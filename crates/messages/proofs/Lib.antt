-- Laws of messages by state.
-- Assumes nothing.
pub mod Sealed
pub mod Taken
pub mod Turns
pub mod Refines
pub mod Resting
