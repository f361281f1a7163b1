-- Messages by state, at the level of struct and bytes.
pub mod Phases
pub mod Verified
pub mod Messages
