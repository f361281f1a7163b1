-- Idle at the level of struct and bytes.
pub mod Idle
