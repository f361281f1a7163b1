-- Laws of what a writer answers and leaves in the buffer.
pub mod Laws
