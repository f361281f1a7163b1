-- What a writer answers and leaves in the buffer.
pub mod Writing
