-- Laws of recording a signer's shares.
-- Assumes nothing.
pub mod Parts
pub mod Joined
pub mod Counts
pub mod Apart
pub mod ReadBack
pub mod RowsKept
pub mod Recorded
pub mod PacketGood
