-- What taking a signer's shares does.
pub mod Taking
