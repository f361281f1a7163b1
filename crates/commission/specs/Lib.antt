-- What commissioning does to the struct and the store.
pub mod Commission
