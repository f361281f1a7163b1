-- Laws of the library's calls together.
-- Assumes nothing.
pub mod Unsaved
pub mod Outright
pub mod Formed
pub mod Calls
pub mod Demands
pub mod Changes
pub mod Responses
pub mod Contracts
pub mod Makes
pub mod Zeros
pub mod Numbers
pub mod Kept
