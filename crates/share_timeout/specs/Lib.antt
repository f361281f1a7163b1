-- What a share timeout does at the level of struct and store.
pub mod Exclusion
pub mod ShareTimeout
