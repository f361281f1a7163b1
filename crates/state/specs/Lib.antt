-- The coordinator's struct and store, and the coordinator that they stand for.
pub mod Slots
pub mod Clock
pub mod Counts
pub mod View
pub mod LiveCounts
pub mod Setters
pub mod Passed
pub mod Replaced
pub mod Turns
pub mod Rounds
