-- Laws of a head's root.
pub mod Roots
