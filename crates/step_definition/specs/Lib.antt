-- The signing phase as definitions, document 01's sections in its order: the configuration and the coordinator as values; calls and
-- answers; each question with its number; what a call does (the step), call by call; what a refusal changes; runs; demand 3 with the
-- round's book; who may be excluded. Below `rounds` stand examples: the worked rounds, and a round for each clause, table by table.
pub mod Lists
pub mod Ids
pub mod Configuration
pub mod Coordinator
pub mod Calls
pub mod Phases
pub mod Questions
pub mod Counts
pub mod Effects
pub mod Whole
pub mod Shared
pub mod Starts
pub mod Timeouts
pub mod NonceGather
pub mod SigShareGather
pub mod Step
pub mod Refusals
pub mod Run
pub mod ResponseLog
pub mod Demand3
pub mod Arrivals
pub mod Silence
pub mod rounds
