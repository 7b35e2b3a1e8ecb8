pub mod Pieces
pub mod Write
pub mod Possible
pub mod Reached
pub mod Writing
