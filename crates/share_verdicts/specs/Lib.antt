-- What is to be done with a signer's shares.
pub mod Verdicts
