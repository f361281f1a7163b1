-- Which types, roots and sign ids are said.
-- Assumes nothing.
pub mod Said
pub mod Quiet
