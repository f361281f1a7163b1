-- The root and the nonce request that a head says.
pub mod Body
