-- What is written of the results that are packets.
pub mod Columns
pub mod Results
