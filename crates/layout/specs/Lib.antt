-- 01, "Packet layout (house)", as definitions: the limits, the types' numbers, what a message is, how it is encoded, questions 8 and 9,
-- and what a packet says.
pub mod Limits
pub mod Types
pub mod Messages
pub mod Encode
pub mod LaidOut
pub mod Decode
pub mod Fits
pub mod Seals
