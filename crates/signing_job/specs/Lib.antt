-- The aggregator's job of a record.
pub mod Places
pub mod SigningJob
pub mod SentKeys
