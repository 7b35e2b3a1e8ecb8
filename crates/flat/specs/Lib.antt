pub mod Back
pub mod Codes
pub mod Flat
pub mod Held
