-- What a call did; what plain numbers stand for, field by field.
-- Assumes nothing.
pub mod Call
pub mod Fields
