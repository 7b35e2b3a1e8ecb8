pub mod Join
pub mod Joining
pub mod Kept
