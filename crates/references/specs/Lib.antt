pub mod Refs
pub mod Arguments
pub mod Args
pub mod Grammar
