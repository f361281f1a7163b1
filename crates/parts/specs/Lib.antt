-- Which part of a packet is which list of its message.
pub mod Parts
