-- The laws of forms.
pub mod Standing
pub mod Lawful
pub mod Writing
pub mod Reading
pub mod Updates
pub mod Moved
