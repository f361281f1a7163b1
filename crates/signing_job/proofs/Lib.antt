-- Laws of the aggregator's job.
-- Assumes nothing.
pub mod Found
pub mod Placing
pub mod Joined
pub mod SentKeys
pub mod Marked
pub mod Holding
pub mod Writes
pub mod Readiness
pub mod Viewed
pub mod Waiting
