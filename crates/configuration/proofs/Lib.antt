-- Laws of the configuration that a host gives.
-- Assumes nothing.
pub mod Walks
pub mod Given
pub mod Sets
pub mod Placing
pub mod Turning
pub mod Asked
pub mod Viewed
