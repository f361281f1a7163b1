-- A packet that is taken, by the call that brings it, at the level of struct and store.
pub mod Entries
