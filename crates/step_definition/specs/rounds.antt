-- The worked rounds, a round for each clause, limits and runs, table by table: examples of the definitions, which a reader need not believe.
pub mod Rounds
pub mod Corners
pub mod EveryCall
pub mod Asked
pub mod Kept
pub mod Jobs
pub mod Marks
pub mod Arrivals
pub mod AtLimits
pub mod Runs
