pub mod Chains
pub mod Converting
pub mod Lexing
pub mod Room
pub mod Joining
pub mod Writing
