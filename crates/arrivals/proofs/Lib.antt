-- Laws of the query of arrivals.
-- Assumes nothing.
pub mod Listing
pub mod Answering
pub mod Refines
