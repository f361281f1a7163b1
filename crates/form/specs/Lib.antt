-- Values as bytes, described.
pub mod Form
