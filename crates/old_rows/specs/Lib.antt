pub mod Row
pub mod Convert
pub mod Back
pub mod Made
