-- What a signer sends, from plain fields and lists, and what such a packet says.
pub mod Responses
pub mod ReadBack
pub mod Rounds
