-- What the code's flags say of the tests in the definitions, and pairs one by one.
pub mod Flags
pub mod Pairs
