-- The job (kind 32): the aggregator's input, from the places of each signer's lists.
pub mod Job
