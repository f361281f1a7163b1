-- Which slots of a record wait.
pub mod Flags
