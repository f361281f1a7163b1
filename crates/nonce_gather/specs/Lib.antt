-- NonceGather at the level of struct and store.
pub mod NonceGather
