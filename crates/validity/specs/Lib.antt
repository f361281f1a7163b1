-- Valid nonces, and key lists compared as sets, with rounds for the comparison.
pub mod Nonces
pub mod Keys
pub mod Notes
pub mod Rounds
