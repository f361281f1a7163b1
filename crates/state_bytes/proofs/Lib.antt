-- What holds of the saved form.
pub mod Described
pub mod Loads
pub mod Front
pub mod AllSaves
pub mod Tested
pub mod Moved
pub mod Table
