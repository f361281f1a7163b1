-- The share request of a record.
pub mod ShareRequest
pub mod Asking
