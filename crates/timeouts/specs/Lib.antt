-- Whom the results of timeouts name, and what a nonce timeout does at the level of struct and store.
pub mod Named
pub mod NonceTimeout
