-- The reader's answer as a count.
pub mod Counted
