-- What a start does to the struct, and what it sends.
pub mod Starts
