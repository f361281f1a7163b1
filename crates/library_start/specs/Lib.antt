-- What a host gives, and what the calls make of it.
pub mod Given
