-- Laws of these calls.
pub mod Turns
pub mod Refines
