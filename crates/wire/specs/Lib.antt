-- The definitions below the packets: bytes, little-endian numbers, and a buffer that is written in part.
pub mod Bytes
