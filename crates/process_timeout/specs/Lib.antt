-- Which timeout fires, and what the host's call does then.
pub mod Due
pub mod ProcessTimeout
