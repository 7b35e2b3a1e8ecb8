pub mod Topic
pub mod Topics
pub mod Ranges
pub mod Kept
