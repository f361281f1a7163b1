-- Laws of the share request.
pub mod Writes
pub mod Requesting
