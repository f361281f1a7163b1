-- Laws of what a writer is given.
pub mod Given
pub mod Mapped
