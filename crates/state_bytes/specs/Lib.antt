-- The coordinator's state as bytes.
pub mod Version
pub mod Description
pub mod Saved
pub mod Loaded
pub mod Table
