-- Laws about key lists.
pub mod Places
pub mod Repeats
pub mod Rounds
pub mod Sets
pub mod Chunks
