-- The reader's answer as plain numbers; parts lie inside their packet; what is told, field by field.
-- Assumes nothing.
pub mod Plain
pub mod Inside
pub mod Fields
