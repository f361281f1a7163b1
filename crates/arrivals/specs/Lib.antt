-- What the query of arrivals gives at the level of struct and store.
pub mod Query
pub mod Walks
