-- Laws of a share timeout.
-- Assumes nothing.
pub mod Flags
pub mod Keys
pub mod Answering
pub mod Refines
