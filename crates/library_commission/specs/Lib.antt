-- What commissioning gives.
pub mod Commissioned
