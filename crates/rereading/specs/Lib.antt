pub mod Given
pub mod Rereading
