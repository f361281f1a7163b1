-- The configuration that a host gives, and how it is kept.
pub mod NewConfig
pub mod Made
