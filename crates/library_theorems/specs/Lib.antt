-- The library's calls, as a host makes them.
pub mod Library
pub mod Can
pub mod Responses
