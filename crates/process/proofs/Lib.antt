-- Laws of the two calls that bring a packet.
-- Assumes nothing.
pub mod Entering
pub mod Refines
