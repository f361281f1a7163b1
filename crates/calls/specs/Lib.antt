-- What the calls that write no packet do to the struct.
pub mod Calls
pub mod Resets
