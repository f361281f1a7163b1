-- The two calls that bring a packet, at the level of struct and store.
pub mod Process
