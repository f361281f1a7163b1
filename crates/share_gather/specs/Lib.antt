-- What SigShareGather does on a response.
pub mod ShareGather
