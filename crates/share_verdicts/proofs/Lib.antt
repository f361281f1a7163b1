-- Laws of verdicts on shares.
-- Assumes nothing.
pub mod Deciding
pub mod Decided
