-- Laws about the layout.
pub mod Entries
pub mod Headed
pub mod Frame
pub mod Response
pub mod Said
pub mod Written
pub mod Limits
pub mod Lengths
pub mod RoundTrip
pub mod Seals
