-- Laws of a signer's packets.
-- Assumes nothing.
pub mod Walks
pub mod Cut
pub mod Given
pub mod Lending
pub mod Packets
pub mod ReadBack
pub mod Rounds
