pub mod Vocabulary
pub mod Listed
pub mod Whole
pub mod Pieces
pub mod Places
pub mod Way
