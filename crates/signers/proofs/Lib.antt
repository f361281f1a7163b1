-- Laws of the signers in order.
-- Assumes nothing.
pub mod Given
pub mod Placing
pub mod Rising
pub mod Walking
