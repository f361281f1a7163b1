-- What a packet that is taken says, part by part.
pub mod Taken
