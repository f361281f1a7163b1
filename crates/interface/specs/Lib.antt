-- What crosses to C.
pub mod Answers
pub mod Configs
pub mod Called
pub mod Fields
