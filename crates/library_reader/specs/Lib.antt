-- A packet as plain numbers, and what they are, field by field.
pub mod Plain
pub mod Fields
