-- Laws of commissioning.
-- Assumes nothing.
pub mod Zeros
pub mod Turns
pub mod Refines
pub mod Given
