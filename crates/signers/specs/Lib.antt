-- What the signers in order come to.
pub mod Order
