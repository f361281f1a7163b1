-- What a host gives Bench's writers as plain numbers, what they answer, and what they write.
pub mod Given
pub mod Written
pub mod ReadBack
pub mod Laid
