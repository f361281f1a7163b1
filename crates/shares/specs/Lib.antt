-- What recording a signer's shares does to struct and store.
pub mod Shares
