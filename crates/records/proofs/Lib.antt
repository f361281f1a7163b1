-- Laws of recording a response, and of the verdict on it.
-- Assumes nothing.
pub mod Adding
pub mod AddResponse
pub mod AddRows
pub mod Recorded
pub mod Effect
pub mod Asking
pub mod Decided
pub mod Recordable
