-- What taking key generation's results does to the struct.
pub mod Results
