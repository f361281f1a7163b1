-- What is written of a signature share request.
pub mod Requests
