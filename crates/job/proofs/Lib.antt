-- Laws of the job writer.
pub mod Held
pub mod Lists
pub mod Parts
