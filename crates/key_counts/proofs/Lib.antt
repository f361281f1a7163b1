-- Laws of the keys of the signers.
-- Assumes nothing.
pub mod Entries
pub mod Sets
pub mod Walking
