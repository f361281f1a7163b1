-- Laws about bytes, little-endian numbers, fields, buffers and lists.
pub mod Numbers
pub mod Fields
pub mod Buffer
pub mod Lists
pub mod SameBytes
pub mod Std
