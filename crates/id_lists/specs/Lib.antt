-- How long a list of ids can be, and what is asked and given where lists are joined.
pub mod KeyLimit
pub mod Adding
