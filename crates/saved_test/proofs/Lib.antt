-- Tests of elements at a stride, and which bytes each form's test looks at.
pub mod Testing
pub mod Shapes
