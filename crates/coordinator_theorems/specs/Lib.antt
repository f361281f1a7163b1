-- The calls together, as a host makes them.
pub mod Host
pub mod Demand3
pub mod Refusals
pub mod WorkedRound
pub mod CallContracts
